pub mod MergedRuns
mod MixLaws
mod NextLaws
pub mod StampLaws
