-- A CALLERROR shows the last letter of its description.
use Rattle.std.proofs.Common.{◌≡◌, ◌≢◌, ◌∙◌, ◌++◌, ℕ, length, List, [], ◌∷◌, sym, ap, append_assoc, arith, length-append, codes, refl, drop}
use Rattle.ocppj_frame.{specs.declared.error_code.ErrorCode.ErrorCode, specs.declared.error_code.ErrorCode.TheVariants.InternalError, specs.declared.frame_fault.FrameFault.FrameFault, specs.declared.frame_fault.FrameFault.TheVariants.{TextTooLong, NotJson, NotACall, MessageType, UnknownAction, Format}, specs.ErrorCode.code_name, specs.Reply.{error_bytes, json_string, memory_bytes}, specs.FrameFault.{fault_code, fault_name}}

-- lists with equal ends of one length end in the same
same_ends : (a b xs ys : List ℕ) → length xs ≡ length ys → a ++ xs ≡ b ++ ys → xs ≡ ys
same_ends [] [] xs ys same e = e
same_ends [] (c ∷ b) xs ys same e = absurd (omega (arith, ap length e, length-append b ys))
same_ends (c ∷ a) [] xs ys same e = absurd (omega (arith, ap length e, length-append a xs))
same_ends (c ∷ a) (d ∷ b) xs ys same e = same_ends a b xs ys same (ap (drop 1) e)

-- what is before the last letter of the description
front : List ℕ → ErrorCode → List ℕ → List ℕ
front id code start = ((((codes "[4," ++ json_string id) ++ codes ",\"") ++ code_name code) ++ codes "\",\"") ++ start

error_bytes-ends : (id : List ℕ) (code : ErrorCode) (start : List ℕ) (letter : ℕ) →
    error_bytes id code (start ++ letter ∷ []) ≡ front id code start ++ (letter ∷ codes "\",{}]")
unfolding front
error_bytes-ends id code start letter = simp append_assoc

-- equal replies have descriptions with the same last letter
pub same_last_letter : (id other_id : List ℕ) (code other_code : ErrorCode) (start other_start : List ℕ) (letter other_letter : ℕ) →
    error_bytes id code (start ++ letter ∷ []) ≡ error_bytes other_id other_code (other_start ++ other_letter ∷ []) → letter ≡ other_letter
same_last_letter id other_id code other_code start other_start letter other_letter e =
    let ends : (letter ∷ codes "\",{}]") ≡ (other_letter ∷ codes "\",{}]") =
    same_ends (front id code start) (front other_id other_code other_start) _ _ refl
    (sym (error_bytes-ends id code start letter) ∙ e ∙ error_bytes-ends other_id other_code other_start other_letter) in
    cc

-- a reply with a description that does not end in `y` does not report OutOfMemory, whatever its id
-- is
pub other_last_letter : (id other : List ℕ) (code : ErrorCode) (start : List ℕ) (letter : ℕ) → letter ≢ 121 →
    error_bytes id code (start ++ letter ∷ []) ≡ error_bytes other InternalError (codes "OutOfMemory") → ⊥
other_last_letter id other code start letter differs e =
    differs (same_last_letter id other code InternalError start (codes "OutOfMemor") letter 121 e)

-- no reply to a fault reports OutOfMemory
pub fault_is_not_memory : (id : List ℕ) (fault : FrameFault) → error_bytes id (fault_code fault) (fault_name fault) ≡ memory_bytes → ⊥
fault_is_not_memory id TextTooLong e = other_last_letter id (codes "-1") (fault_code TextTooLong) (codes "TextTooLon") 103 (omega arith) e
fault_is_not_memory id NotJson e = other_last_letter id (codes "-1") (fault_code NotJson) (codes "NotJso") 110 (omega arith) e
fault_is_not_memory id NotACall e = other_last_letter id (codes "-1") (fault_code NotACall) (codes "NotACal") 108 (omega arith) e
fault_is_not_memory id MessageType e = other_last_letter id (codes "-1") (fault_code MessageType) (codes "MessageTyp") 101 (omega arith) e
fault_is_not_memory id UnknownAction e = other_last_letter id (codes "-1") (fault_code UnknownAction) (codes "UnknownActio") 110 (omega arith) e
fault_is_not_memory id Format e = other_last_letter id (codes "-1") (fault_code Format) (codes "Forma") 116 (omega arith) e
