pub mod CodedB
pub mod PromiseB
pub mod ModesB
pub mod PlanB
pub mod StreamB
pub mod StreamedB
pub mod Courses
