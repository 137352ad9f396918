mod Added
mod Files
mod Places
