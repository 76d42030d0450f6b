-- One transaction of one station, in runs of a world.
use Rattle.std.{proofs.Common.{◌≡◌, ℕ, false, cond, List, [], ◌∷◌, ◌++◌, Some, None, All, map, refl, sym, ap, ◌∙◌, bytes_eq}, specs.List.cons_option, proofs.lemmas.List.map-append, proofs.lemmas.List.Elements.{All-head, All-tail}}
use Rattle.ledger_model.{specs.Content.empty_content, specs.Laws.left_by, specs.World.{Happens, Station, World, run}, specs.WorldLaws.{commands_on, station_left}, proofs.Runs.each_by_its_own, proofs.SumsByTransaction.same_text}
use Rattle.transaction_laws.{specs.Transcript.{Exchange, commands_in}, specs.Stations.{happens_at, transcript_at, station_alone}, proofs.LoneRuns.alone_from_empty, proofs.StepLemmas.enough_itself}

-- what happens to a station are commands on it, and none on another
on_it : (name : List ℕ) (ls : List Exchange) → commands_on name (map (λ l. (name, l.0)) ls) ≡ commands_in ls
on_it name [] = refl
on_it name (l ∷ ls) = ap (λ b. cons_option (cond b (Some l.0) None) (commands_on name (map (λ l. (name, l.0)) ls))) (same_text name) ∙ ap (λ cs. l.0 ∷ cs) (on_it name ls)

on_another : (name other : List ℕ) → bytes_eq name other ≡ false → (ls : List Exchange) → commands_on other (map (λ l. (name, l.0)) ls) ≡ []
on_another name other apart [] = refl
on_another name other apart (l ∷ ls) = ap (λ b. cons_option (cond b (Some l.0) None) (commands_on other (map (λ l. (name, l.0)) ls))) apart ∙ on_another name other apart ls

pub own_station : (tx : List ℕ) (hs : List Happens) (s : Station) → s.content ≡ empty_content → station_left (happens_at tx s hs) s ≡ station_alone tx hs s
own_station tx hs s none =
    let all = commands_on s.name hs in
    let alone = (alone_from_empty s.limits s.limits tx all (enough_itself s.limits)).content in
    ap (λ cs. record s { content = left_by s.limits s.content cs }) (on_it s.name (transcript_at tx s hs))
    ∙ ap (λ c. record s { content = left_by s.limits c (commands_in (transcript_at tx s hs)) }) none
    ∙ ap (λ c. record s { content = c }) alone
    ∙ ap (λ c. station_alone tx hs (record s { content = c })) (sym none)

pub other_station : (tx : List ℕ) (hs : List Happens) (s other : Station) → bytes_eq s.name other.name ≡ false → station_left (happens_at tx s hs) other ≡ other
other_station tx hs s other apart = ap (λ cs. record other { content = left_by other.limits other.content cs }) (on_another s.name other.name apart (transcript_at tx s hs))

-- stations of other names stay
others_stay : (tx : List ℕ) (hs : List Happens) (s : Station) (w : World) → All (λ other. bytes_eq s.name other.name ≡ false) w → map (station_left (happens_at tx s hs)) w ≡ w
others_stay tx hs s [] all = refl
others_stay tx hs s (r ∷ w) all =
    let first = other_station tx hs s r (All-head (λ (other : Station). bytes_eq s.name other.name ≡ false) r w all) in
    let rest = others_stay tx hs s w (All-tail (λ (other : Station). bytes_eq s.name other.name ≡ false) r w all) in
    λ i. first i ∷ rest i

pub own_world : (tx : List ℕ) (hs : List Happens) (front back : World) (s : Station) → s.content ≡ empty_content
    → All (λ other. bytes_eq s.name other.name ≡ false) front → All (λ other. bytes_eq s.name other.name ≡ false) back
    → run (front ++ s ∷ back) (happens_at tx s hs) ≡ front ++ station_alone tx hs s ∷ back
own_world tx hs front back s none before behind =
    each_by_its_own (front ++ s ∷ back) (happens_at tx s hs)
    ∙ map-append (station_left (happens_at tx s hs)) front (s ∷ back)
    ∙ (λ i. others_stay tx hs s front before i ++ own_station tx hs s none i ∷ others_stay tx hs s back behind i)
