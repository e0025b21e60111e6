-- The types, by the paper's words. Where two types share a word, as the area C0 and the element C0, a definition writes
-- the type before it: `Area.C0`, `ControlElement.C0`.
pub use Rattle.paper.specs.declared.Column.{Column}
pub use Rattle.paper.specs.declared.Row.{Row}
pub use Rattle.paper.specs.declared.Position.{Position}
pub use Rattle.paper.specs.declared.Area.{Area}
pub use Rattle.paper.specs.declared.Form.{Form}
pub use Rattle.paper.specs.declared.Form.TheVariants.{Seven, Eight}
pub use Rattle.paper.specs.declared.ControlElement.{ControlElement}
pub use Rattle.paper.specs.declared.Element.{Element}
pub use Rattle.paper.specs.declared.Element.TheVariants.{G0, G1, G2, G3}
pub use Rattle.paper.specs.declared.Kind.{Kind}
pub use Rattle.paper.specs.declared.Kind.TheVariants.{Of94, Of96}
pub use Rattle.paper.specs.declared.Count.{Count}
pub use Rattle.paper.specs.declared.Set.{Set}
pub use Rattle.paper.specs.declared.Sets.{Sets}
pub use Rattle.paper.specs.declared.SetByte.{SetByte}
pub use Rattle.paper.specs.declared.SetByte.TheVariants.{OfSpace, OfDelete, OfSet, Outside}
pub use Rattle.paper.specs.declared.SequenceByte.{SequenceByte}
pub use Rattle.paper.specs.declared.SequenceByte.TheVariants.{Intermediate, Final, Neither}
pub use Rattle.paper.specs.declared.Intermediates.{Intermediates}
pub use Rattle.paper.specs.declared.Shift.{Shift}
pub use Rattle.paper.specs.declared.Shift.TheVariants.{LS0, LS1, LS2, LS3, LS1R, LS2R, LS3R, SS2, SS3}
pub use Rattle.paper.specs.declared.Meaning.{Meaning}
pub use Rattle.paper.specs.declared.Meaning.TheVariants.{NoMeaning, Function, Shifts}
pub use Rattle.paper.specs.declared.GraphicArea.{GraphicArea}
pub use Rattle.paper.specs.declared.PositionBytes.{PositionBytes}
pub use Rattle.paper.specs.declared.Within.{Within}
pub use Rattle.paper.specs.declared.Standing.{Standing}
pub use Rattle.paper.specs.declared.Reader.{Reader}
pub use Rattle.paper.specs.declared.Refusal.{Refusal}
pub use Rattle.paper.specs.declared.Refused.{Refused}
pub use Rattle.paper.specs.declared.Answer.{Answer}
pub use Rattle.paper.specs.declared.Answered.{Answered}
pub use Rattle.paper.specs.declared.EndWord.{EndWord}
pub use Rattle.paper.specs.declared.Figures.{Figures}
pub use Rattle.paper.specs.declared.Listed.{Listed}
pub use Rattle.paper.specs.declared.Located.{Located}
