-- The faults of a frame, their codes and their names.
use Rattle.std.specs.Prelude.{ℕ, List, codes}
use Rattle.ocppj_frame.{specs.declared.error_code.ErrorCode.ErrorCode, specs.declared.error_code.ErrorCode.TheVariants.{RpcFrameworkError, MessageTypeNotSupported, NotImplemented, FormatViolation}, specs.declared.frame_fault.FrameFault.FrameFault, specs.declared.frame_fault.FrameFault.TheVariants.{TextTooLong, NotJson, NotACall, MessageType, UnknownAction, Format}}

-- The code of the CALLERROR that reports a fault.
abbrev pub fault_code : FrameFault → ErrorCode
fault_code TextTooLong = RpcFrameworkError
fault_code NotJson = RpcFrameworkError
fault_code NotACall = RpcFrameworkError
fault_code MessageType = MessageTypeNotSupported
fault_code UnknownAction = NotImplemented
fault_code Format = FormatViolation

-- The name of a fault, which is the CALLERROR's description.
abbrev pub fault_name : FrameFault → List ℕ
fault_name TextTooLong = codes "TextTooLong"
fault_name NotJson = codes "NotJson"
fault_name NotACall = codes "NotACall"
fault_name MessageType = codes "MessageType"
fault_name UnknownAction = codes "UnknownAction"
fault_name Format = codes "Format"
