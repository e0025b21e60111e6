pub mod RefusalsByNumber
