pub mod LineStarts
pub mod FeedScan
pub mod LinePaths
pub mod MarkPaths
pub mod RangePaths
pub mod WholePaths
