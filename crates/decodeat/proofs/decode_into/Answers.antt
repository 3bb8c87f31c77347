use Rattle.std.proofs.Common.{refl}
use Rattle.std.proofs.lemmas.Result.{err_from_is_err_and}
use Rattle.decodeat.proofs.Decoding.{not_there, there, past, refused_past, refused_into, no_room_into, written}
use Rattle.decodeat.proofs.decode_into.Goals as goal

pub returns-in_err-code : goal.returns-in_err-code
returns-in_err-code c =
    let p = err_from_is_err_and c.from_residual.result c.from_residual.ensures.1 in
    let t = not_there c.get.result _ _ _ c.get.ensures.lookup.0 c.in_err-code.ensures.value in
    refused_past _ _ _ _ (past _ _ t.0) (rw (p.1, p.2, t.1))

pub returns-in_err-parts : goal.returns-in_err-parts
returns-in_err-parts c =
    let p = err_from_is_err_and c.from_residual-in_err-parts.result c.from_residual-in_err-parts.ensures.1 in
    let t = there c.get.result _ _ _ c.get.ensures.lookup.0 c.in_ok-code.ensures.value in
    refused_into _ _ _ _ t.0 c.in_ok-code.code.now t.2 _ c.in_err-parts.ensures (rw (p.1, p.2))

pub returns-in_err-room : goal.returns-in_err-room
returns-in_err-room c =
    let p = err_from_is_err_and c.from_residual-in_err-room.result c.from_residual-in_err-room.ensures.1 in
    let t = there c.get.result _ _ _ c.get.ensures.lookup.0 c.in_ok-code.ensures.value in
    let u = not_there c.first_chunk_mut.result _ _ _ c.first_chunk_mut.ensures.cases c.in_err-room.ensures.value in
    no_room_into _ _ _ _ t.0 c.in_ok-code.code.now t.2 _ _ c.in_ok-parts.ensures u.0 (rw (p.1, p.2, u.1))

pub returns : goal.returns
returns c =
    let t = there c.get.result _ _ _ c.get.ensures.lookup.0 c.in_ok-code.ensures.value in
    let u = there c.first_chunk_mut.result _ _ _ c.first_chunk_mut.ensures.cases c.in_ok-room.ensures.value in
    written _ _ _ _ t.0 c.in_ok-code.code.now t.2 _ _ c.in_ok-parts.ensures u.enough refl _ _ c.of_parts.ensures refl
