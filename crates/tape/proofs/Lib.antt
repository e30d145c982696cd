pub mod Buffers
pub mod LaysOut
pub mod Numbers
pub mod ReadsBack
pub mod Records
pub mod Requests
pub mod Room
