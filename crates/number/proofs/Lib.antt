-- Laws of the arithmetics.
pub mod ResidueLaws
pub mod AnswerLaws
pub mod DoubleLaws
pub mod WholeDoubles
pub mod ConstantLaws
