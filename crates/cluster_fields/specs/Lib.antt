pub mod RecordClusterFaults
