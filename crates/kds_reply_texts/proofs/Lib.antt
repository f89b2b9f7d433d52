pub mod BatchTexts
pub mod Fronts
pub mod Joined
pub mod TokenTexts
pub mod PlainTexts
pub mod RecordTexts
pub mod PlaceTexts
pub mod RoomTexts
