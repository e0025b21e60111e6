pub mod BytesOfAreas
pub mod RecordsAfterAnswers
