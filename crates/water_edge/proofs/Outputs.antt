-- What a sink took, and what of it is flushed.
use Rattle.std.proofs.Common.{◌≡◌, ℕ, List, [], ◌++◌, take, Option, Some, None, refl, sym, subst, append-nil}
use Rattle.std.proofs.Common.{take-append-drop}
use Rattle.std.specs.Io.KnownBytes.{Appends, Keeps, append_known}
use Rattle.std.proofs.KnownBytes.{Appends-kept, Appends-nil, Appends-trans, Keeps-refl, append_known-grown}
use Rattle.std.proofs.KnownBytes.{append_known-moved, append_known-passed}
use Rattle.water_edge.specs.Edge.{Extends, HasFlushed, IsKnownPrefix, Output, Passes, Stays}
use Rattle.water_edge.specs.Stream.{Flushes, WriterState, taken_bytes, writer_output}

pub IsKnownPrefix-same : (a : Option (List ℕ)) → IsKnownPrefix a a
IsKnownPrefix-same a = ([], Appends-nil a)

pub IsKnownPrefix-trans : (a b c : Option (List ℕ)) → IsKnownPrefix a b → IsKnownPrefix b c → IsKnownPrefix a c
IsKnownPrefix-trans a b c h k = (h.0 ++ k.0, Appends-trans a b c h.0 k.0 h.1 k.1)

pub Passes-same : (o : Output) → Passes o o
Passes-same o = record { later = IsKnownPrefix-same o.flushed; within = λ h. h }

pub Passes-trans : (a b c : Output) → Passes a b → Passes b c → Passes a c
Passes-trans a b c h k = record {
  later = IsKnownPrefix-trans a.flushed b.flushed c.flushed h.later k.later;
  within = λ first. k.within (h.within first);
}

pub Extends-nil : (o : Output) → Extends o o []
Extends-nil o = record { taken = Appends-nil o.taken; passes = Passes-same o }

pub Extends-trans : (a b c : Output) (first second : List ℕ) → Extends a b first → Extends b c second →
    Extends a c (first ++ second)
Extends-trans a b c first second h k = record {
  taken = Appends-trans a.taken b.taken c.taken first second h.taken k.taken;
  passes = Passes-trans a b c h.passes k.passes;
}

-- what was taken stays when it is flushed
pub Extends-kept : (old mid new : Output) (piece : List ℕ) → Extends old mid piece → Stays mid new →
    Extends old new piece
Extends-kept old mid new piece h k = record {
  taken = Appends-kept old.taken mid.taken new.taken piece h.taken k.taken;
  passes = Passes-trans old mid new h.passes k.passes;
}

-- What was flushed at some time is flushed later.

pub HasFlushed-now : (old now : Output) (bytes : List ℕ) → Appends old.taken now.taken bytes →
    now.flushed ≡ now.taken → HasFlushed old now bytes
HasFlushed-now old now bytes h all = (now.taken, h, rw all (IsKnownPrefix-same now.taken))

pub HasFlushed-later : (old mid new : Output) (bytes : List ℕ) → HasFlushed old mid bytes → Passes mid new →
    HasFlushed old new bytes
HasFlushed-later old mid new bytes h k =
    (h.0, h.1, IsKnownPrefix-trans h.0 mid.flushed new.flushed h.2 k.later)

-- A sink over a writer.

-- what the writer holds comes before what is kept
pub flushed_before : (known : Option (List ℕ)) (kept : List ℕ) → IsKnownPrefix known (append_known known kept)
flushed_before None kept = ([], tt)
flushed_before (Some bytes) kept = (kept, refl)

-- such a sink, by what the writer holds and what is kept
abbrev pub output_of : Option (List ℕ) → List ℕ → Output
output_of bytes kept = record { taken = append_known bytes kept; flushed = bytes }

writer_passes : (bytes now : Option (List ℕ)) (kept now_kept : List ℕ) → IsKnownPrefix bytes now →
    Passes (output_of bytes kept) (output_of now now_kept)
writer_passes bytes now kept now_kept h = record { later = h; within = λ _. flushed_before now now_kept }

-- what was kept is written, or a prefix of it
pub writer_stays : (old new : WriterState) (bytes : Option (List ℕ)) (kept : List ℕ) → Flushes old new →
    bytes ≡ new.bytes → kept ≡ new.kept → Stays (writer_output old) (output_of bytes kept)
writer_stays old new bytes kept h same rest = rw (same, rest) record {
  taken = append_known-moved old.bytes new.bytes (take h.count old.kept) new.kept old.kept h.written
      (rw h.left (sym (take-append-drop h.count old.kept)));
  passes = writer_passes old.bytes new.bytes old.kept new.kept (take h.count old.kept, h.written);
}

-- a piece is kept, after what is kept
pub writer_keeps : (bytes now : Option (List ℕ)) (kept now_kept piece : List ℕ) → now ≡ bytes →
    now_kept ≡ kept ++ piece → Extends (output_of bytes kept) (output_of now now_kept) piece
writer_keeps bytes now kept now_kept piece same more = record {
  taken = append_known-grown (append_known bytes kept) now kept now_kept piece
      (rw same (Keeps-refl (append_known bytes kept))) more;
  passes = writer_passes bytes now kept now_kept (rw same (IsKnownPrefix-same bytes));
}

-- a piece is written, where nothing is kept
pub writer_writes : (bytes now : Option (List ℕ)) (kept now_kept piece : List ℕ) → kept ≡ [] → now_kept ≡ [] →
    Appends bytes now piece → Extends (output_of bytes kept) (output_of now now_kept) piece
writer_writes bytes now kept now_kept piece none still h = record {
  taken = subst (Appends (append_known bytes kept) (append_known now now_kept)) (append-nil piece)
      (append_known-passed (append_known bytes kept) bytes now kept now_kept piece []
      (Keeps-refl (append_known bytes kept)) none h (rw (none, still) refl));
  passes = writer_passes bytes now kept now_kept (piece, h);
}

-- what is kept is written first
pub writer_first : (old mid : WriterState) (new : Output) (piece : List ℕ) → Flushes old mid →
    Extends (writer_output mid) new piece → Extends (writer_output old) new piece
writer_first old mid new piece h k =
    Extends-trans (writer_output old) (writer_output mid) new [] piece
    (Extends-kept (writer_output old) (writer_output old) (writer_output mid) [] (Extends-nil (writer_output old))
    (writer_stays old mid mid.bytes mid.kept h refl refl)) k
