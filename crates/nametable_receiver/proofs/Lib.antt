-- Laws on the steps of a receiver.
pub mod StepLaws
