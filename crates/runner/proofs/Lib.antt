pub mod RunsTape
