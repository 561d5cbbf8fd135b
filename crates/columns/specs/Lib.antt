-- 01, 'Columns by pieces': what the code's types mean in the definitions of `pieces`.
pub mod Placeable
pub mod Lines
pub mod Placed
pub mod Section
pub mod Stacked
pub mod Intake
pub mod Given
pub mod Rooms
pub mod IntakeLaws
pub mod GivenLaws
pub mod Sections
pub mod SectionsLaws
