pub mod Disturbing
pub mod Files
pub mod Droppings
pub mod Changing
pub mod Telling
pub mod Memories
