-- Laws on reading the short form.
pub mod VerdictLaws
pub mod StepLaws
pub mod TableLaws
