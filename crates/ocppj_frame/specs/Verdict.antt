use Rattle.std.specs.Prelude.{◌≡◌}
use Rattle.serde_json.specs.Data.{Data}
use Rattle.ocppj_frame.{specs.declared.verdict.Verdict.Verdict, specs.Frame.{Frame, Called, Silence, refused}}
use Rattle.ocppj_frame.specs.declared.verdict.Verdict.TheVariants as verdict

-- The verdict is what the elements ask for; it leaves out the payload of a call.
abbrev pub Says : Frame → Verdict → Type 0
Says frame (verdict.Call id action) = (payload : Data) × (frame ≡ Called id action payload)
Says frame verdict.Silent = frame ≡ Silence
Says frame (verdict.Refused id fault) = frame ≡ refused id fault
