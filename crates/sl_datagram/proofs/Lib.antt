mod Headers
mod Arguments
