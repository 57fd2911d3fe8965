pub mod ExplainedErrors
