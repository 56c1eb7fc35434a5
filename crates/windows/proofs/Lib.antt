pub mod RoomLaws
pub mod GoneLaws
pub mod EndLaws
pub mod Determined
