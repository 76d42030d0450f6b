use Rattle.std.specs.Prelude.{ℕ, List, codes}
use Rattle.ocppj_frame.{specs.declared.error_code.ErrorCode.ErrorCode, specs.declared.error_code.ErrorCode.TheVariants.{FormatViolation, OccurrenceConstraintViolation, TypeConstraintViolation, PropertyConstraintViolation, GenericError, InternalError, RpcFrameworkError, MessageTypeNotSupported, NotImplemented}}

-- The code as a CALLERROR has it.
abbrev pub code_name : ErrorCode → List ℕ
code_name FormatViolation = codes "FormatViolation"
code_name OccurrenceConstraintViolation = codes "OccurrenceConstraintViolation"
code_name TypeConstraintViolation = codes "TypeConstraintViolation"
code_name PropertyConstraintViolation = codes "PropertyConstraintViolation"
code_name GenericError = codes "GenericError"
code_name InternalError = codes "InternalError"
code_name RpcFrameworkError = codes "RpcFrameworkError"
code_name MessageTypeNotSupported = codes "MessageTypeNotSupported"
code_name NotImplemented = codes "NotImplemented"
