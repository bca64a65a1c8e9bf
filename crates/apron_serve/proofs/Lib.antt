pub mod Forms
pub mod Crosses
pub mod Desks
pub mod Finished
pub mod Endings
pub mod Keeping
pub mod Completing
pub mod NoScreens
