mod LoadingLaws
mod JudgingLaws
mod StartingLaws
mod ScanningLaws
mod PreparingLaws
mod FindingLaws
