-- What a step can give, that every rule gives it, what is written, and the theorems about every step of every record.
pub mod SiteFacts
pub mod SiteSteps
pub mod SiteMessages
pub mod SiteLaws
