-- Fields and events belong together.
pub mod FieldsLaws
