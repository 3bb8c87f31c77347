-- The parts of an instruction as 48 bytes, as docs/byte-form.md lays them out: numbers little-endian.
use Rattle.std.specs.Prelude.{ℕ, List, [], ◌∷◌, ◌++◌}
use Rattle.bits.specs.Word.{bytes_of}
use Rattle.isa.specs.declared.parts.Slot.{Slot}
use Rattle.isa.specs.declared.parts.Parts.{Parts}

abbrev pub slot_bytes : Slot → List ℕ
slot_bytes s = s.kind ∷ s.hint ∷ bytes_of 2 s.number

-- the parts, and the length n of the encoding
abbrev pub lay_with : Parts → ℕ → List ℕ
lay_with p n =
    -- 0: kind, length, l, m
    (p.kind ∷ n ∷ p.l ∷ p.m ∷ [])
    -- 4: d, a, b, c
    ++ slot_bytes p.d ++ slot_bytes p.a ++ slot_bytes p.b ++ slot_bytes p.c
    -- 20: immediate
    ++ bytes_of 4 p.immediate
    -- 24: saturate, negate, the signs of a, b, c, shift
    ++ (p.signs.saturate ∷ p.signs.negate ∷ p.signs.sa ∷ p.signs.sb ∷ p.signs.sc ∷ p.signs.shift ∷ [])
    -- 30: the truth table
    ++ (p.truth.tt0 ∷ p.truth.tt1 ∷ p.truth.tt2 ∷ p.truth.tt3 ∷ [])
    -- 34: cc, ccn, n, and three reserved bytes
    ++ (p.condition.cc ∷ p.condition.ccn ∷ p.condition.n ∷ 0 ∷ 0 ∷ 0 ∷ [])
    -- 40: kept
    ++ bytes_of 8 p.kept
