-- A script that is being restored, as a place in it.
use Rattle.std.specs.Prelude.{ℕ}
use Rattle.journal_script.{specs.declared.restored_script.RestoredScript.RestoredScript, specs.Reading.{Place, place}}

-- Its place.
abbrev pub place_of : {J : Type 0} → RestoredScript J → Place
place_of s = place s.script.script s.source

-- How many posts were made in all.
abbrev pub posts_of : {J : Type 0} → RestoredScript J → ℕ
posts_of s = s.script.posts
