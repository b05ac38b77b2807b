pub mod MadeTokens
pub mod MadeNumbers
pub mod MadeTexts
pub mod MadeTrees
pub mod MadeSystems
