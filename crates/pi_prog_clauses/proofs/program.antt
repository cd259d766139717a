pub mod OnePartMore
