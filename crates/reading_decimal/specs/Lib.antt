pub mod Decimal
pub mod Grammar
pub mod Laws
pub mod Moment
pub mod MomentText
pub mod Integer
pub mod Numeral
pub mod Quarter
