-- The bytes by which a message is answered that is no command of a caller.
use Rattle.std.specs.Prelude.{ℕ, List, ◌++◌, codes, decimal}
use Rattle.wire_decode.specs.declared.fault.WireFault.{WireFault}
use Rattle.wire_decode.specs.declared.fault.WireFault.TheVariants as faults
use Rattle.wire_decode.specs.Response.{response_of}

-- the status (RFC 9110, section 15)
abbrev pub status_of : WireFault → ℕ
status_of (faults.BadForm rule) = 400
status_of faults.NoCaller = 401
status_of faults.NotFound = 404
status_of faults.TooLarge = 413
status_of faults.NotOffered = 501

-- the members of the body, in the order of their names
abbrev pub json_of : WireFault → List ℕ
json_of (faults.BadForm rule) = codes "{\"reply\":\"bad_form\",\"rule\":" ++ decimal rule ++ codes "}"
json_of faults.NoCaller = codes "{\"reply\":\"no_caller\"}"
json_of faults.NotFound = codes "{\"reply\":\"not_found\"}"
json_of faults.TooLarge = codes "{\"reply\":\"too_large\"}"
json_of faults.NotOffered = codes "{\"reply\":\"not_offered\"}"

unfoldable pub fault_text : WireFault → List ℕ
fault_text fault = response_of (status_of fault) (json_of fault)
