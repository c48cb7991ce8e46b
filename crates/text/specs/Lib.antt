-- Parts put into lent bytes, pages that know where their text goes on, decimal numbers and words as bytes.
pub mod Text
pub mod Decimal
pub mod Said
pub mod Page
