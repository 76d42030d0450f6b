-- Members that are looked for, as the entries of an object are offered to them.
use Rattle.std.{proofs.Common.{◌≡◌, List, [], ◌∷◌, map, Bool, true, false, Option, Some, None, option_map, string_bytes, bytes_eq, refl, sym, ap, ◌∙◌}, specs.Prelude.{◌&&◌, is_none, option_and_then, All, if◌then◌else◌}, proofs.lemmas.Bool.false≢true, specs.Option.option_or, proofs.lemmas.List.Elements.{All-head, All-tail}, proofs.lemmas.Slice.Eq.bytes_eq-Decides}
use Rattle.serde_json.{specs.Data.Data, specs.Find.{get_member, as_object}, specs.View.{view, members_view}, proofs.Views.{member_here, member_later}}
use Rattle.marked_json.{specs.declared.node.Node.Node, specs.declared.wanted.Wanted.Wanted, specs.Reading.{node, unless_null, field_of}, specs.Wanted.{Entry, name_of, first_of, found, offered, within}}

-- the first of two, where the second is put in only for want of the first
taken : (first : Option Node) (same : Bool) (member : Node) (rest all : Option Data) → (same ≡ true → all ≡ Some (node member)) → (same ≡ false → all ≡ rest)
    → option_or (option_map node (if same && is_none first then Some member else first)) rest ≡ option_or (option_map node first) all
taken (Some there) true member rest all here later = refl
taken (Some there) false member rest all here later = refl
taken None true member rest all here later = sym (here refl)
taken None false member rest all here later = sym (later refl)

chosen : (t : Bool) (member : Node) (wanted : Wanted) (entries : List Entry)
    → within entries (if t then record wanted { first = Some member } else wanted)
    ≡ option_or (option_map node (if t then Some member else wanted.first)) (get_member (36 ∷ name_of wanted) (members_view entries))
chosen true member wanted entries = refl
chosen false member wanted entries = refl

-- what was offered need not come any more
pub within-offered : (e : Entry) (entries : List Entry) (member : Node) → node member ≡ view e.1 → (wanted : Wanted)
    → within entries (offered (string_bytes e.0) member wanted) ≡ within (e ∷ entries) wanted
within-offered e entries member is wanted =
    let key = string_bytes e.0 in
    let name = 36 ∷ name_of wanted in
    let here = λ (same : bytes_eq key name ≡ true). member_here name e entries (sym ((bytes_eq-Decides key name).0 same)) ∙ ap Some (sym is) in
    let later = λ (other : bytes_eq key name ≡ false). member_later name e entries (λ same. false≢true (sym other ∙ (bytes_eq-Decides key name).1 (sym same))) in
    chosen (bytes_eq key name && is_none wanted.first) member wanted entries
    ∙ taken wanted.first (bytes_eq key name) member (get_member name (members_view entries)) (get_member name (members_view (e ∷ entries))) here later

pub within-each_offered : (e : Entry) (entries : List Entry) (member : Node) → node member ≡ view e.1 → (ws : List Wanted)
    → map (within entries) (map (offered (string_bytes e.0) member) ws) ≡ map (within (e ∷ entries)) ws
within-each_offered e entries member is [] = refl
within-each_offered e entries member is (w ∷ ws) = rw (within-offered e entries member is w, within-each_offered e entries member is ws) refl

or_none : (first : Option Data) → first ≡ option_or first None
or_none None = refl
or_none (Some tree) = refl

-- where nothing more comes, what was found is the first
pub found_at_end : (ws : List Wanted) → map found ws ≡ map (option_and_then unless_null) (map (within []) ws)
found_at_end [] = refl
found_at_end (w ∷ ws) = ap (λ f. option_and_then unless_null f ∷ map found ws) (or_none (first_of w)) ∙ ap (λ rest. option_and_then unless_null (within [] w) ∷ rest) (found_at_end ws)

-- where nothing was found, all of an object is to come
pub fields_within : (tree : Data) (entries : List Entry) → as_object tree ≡ Some (members_view entries) → (ws : List Wanted) → All (λ w. first_of w ≡ None) ws
    → map (option_and_then unless_null) (map (within entries) ws) ≡ map (λ (w : Wanted). field_of (name_of w) tree) ws
fields_within tree entries is [] none = refl
fields_within tree entries is (w ∷ ws) none =
    rw (is, All-head (λ w. first_of w ≡ None) w ws none)
    (ap (λ rest. option_and_then unless_null (get_member (36 ∷ name_of w) (members_view entries)) ∷ rest)
    (fields_within tree entries is ws (All-tail (λ w. first_of w ≡ None) w ws none)))

-- what is no object has no fields
pub fields_of_none : (tree : Data) → as_object tree ≡ None → (ws : List Wanted) → All (λ w. first_of w ≡ None) ws → map found ws ≡ map (λ (w : Wanted). field_of (name_of w) tree) ws
fields_of_none tree is [] none = refl
fields_of_none tree is (w ∷ ws) none =
    rw (is, All-head (λ w. first_of w ≡ None) w ws none) (ap (λ rest. None ∷ rest) (fields_of_none tree is ws (All-tail (λ w. first_of w ≡ None) w ws none)))
