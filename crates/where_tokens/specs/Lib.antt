pub mod TokenTexts
