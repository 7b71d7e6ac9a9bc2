-- What the contracts of `programs` cite beyond the model.
pub mod AnswerFor
pub mod Checked
pub mod Remainders
