pub mod SetProgramme
