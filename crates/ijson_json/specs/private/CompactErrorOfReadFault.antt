-- The error of `compact` for each fault of reading the source.
use Rattle.ijson_json.specs.declared.device.transfer.ReadFault.{ReadFault}
use Rattle.ijson_json.specs.declared.device.transfer.ReadFault.TheVariants as faults
use Rattle.ijson_json.specs.declared.compacting.CompactError.{CompactError}
use Rattle.ijson_json.specs.declared.compacting.CompactError.TheVariants as errors

abbrev pub compact_error_of_read_fault : ReadFault → CompactError
compact_error_of_read_fault faults.Device = errors.Read
compact_error_of_read_fault faults.Memory = errors.Memory
