pub mod RecordCluster
pub mod RecordClusterAnswer
pub mod RecordClusterClaims
