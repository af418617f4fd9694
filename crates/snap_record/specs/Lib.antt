-- The definitions of snap_record, by their modules.
pub mod Items
pub mod Longer
pub mod Record
pub mod History
pub mod SeenRoles
pub mod Roles
pub mod Searches
pub mod Names
