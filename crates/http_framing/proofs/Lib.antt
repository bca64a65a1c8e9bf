pub mod HeadLaws
pub mod BlankLaws
pub mod BodyLaws
pub mod FrontLaws
pub mod OneReading
pub mod StreamLaws
