mod FoundLaw
mod GroupLaw
mod MarkLaws
mod SpanLaws
