-- 01, 'Gates and tree', what the public functions of the layer answer; below it the vocabulary of the contracts inside.
pub mod Shapes
pub mod Selection
pub mod Answers
pub mod Plan
pub mod PlanLaws
pub mod SoundLaws
pub mod SelectorLaws
pub mod Offers
pub mod Layout
pub mod Walks
pub mod Placements
