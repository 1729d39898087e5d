mod StateLaws
mod SubsumptionLaws
mod RefusalLaws
mod GrammarLaws
mod ItemLaws
mod LoadLaws
mod AnswerLaws
mod SampleLaws
mod OutcomeLaws
mod CommandLaws
mod StepLaws
pub mod RunLaws
