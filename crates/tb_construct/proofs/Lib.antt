pub mod RootLaws
pub mod WitnessTreeLaws
pub mod KidLaws
pub mod PutLaws
pub mod OwnLaws
pub mod TreeLaws
