pub mod FrontEnd
