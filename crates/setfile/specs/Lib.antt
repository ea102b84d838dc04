pub mod SampleFile
