pub mod UsersNamed
