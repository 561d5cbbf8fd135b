-- 01, 'Field': its definitions, and the laws that the layers above cite.
pub mod Field
