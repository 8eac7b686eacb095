pub mod SpanPool
