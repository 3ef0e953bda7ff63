-- What every scheme asks first of a text and of a label: the tests, what is asked of marks, what a check answers, and the causes; and
-- what a codec with marks is.
pub mod Tests
pub mod Marks
pub mod Answer
pub mod Causes
pub mod MarkedCodec
