pub mod UnitLaws
pub mod SpanLaws
pub mod TableLaws
