mod Plain
mod Made
