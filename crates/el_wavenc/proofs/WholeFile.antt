-- What is put out makes a WAV file.
use Rattle.std.proofs.Common.{◌≡◌, ℕ, ◌+◌, Bool, true, false, if◌then◌else◌, List, [], ◌∷◌, ◌++◌, length, drop, Option, Some, None, refl, sym, ap, subst, ◌∙◌, append-nil, append_assoc, arith, Result, Ok, Err, length-append, nat_le}
use Rattle.std.specs.Prelude.{◌==◌, ◌%◌}
use Rattle.std.specs.List.{fold}
use Rattle.std.specs.Option.{option_map}
use Rattle.std.proofs.lemmas.List.{drop_at}
use Rattle.std.proofs.lemmas.List.Sums.{fold-append}
use Rattle.gst_caps.specs.Accepts.{accepts}
use Rattle.gst_value.specs.Description.{Description}
use Rattle.gst_value.specs.declared.one.One.{One}
use Rattle.gst_item.proofs.Kept.{since_push}
use Rattle.gst_outside.specs.Bytes.{up_to, written}
use Rattle.gst_outside.proofs.Writing.{written_at_end, up_to_short}
use Rattle.flow_model.specs.Item.{Item, Buf, Ev, Buffer, StreamStart, NewCaps, NewSegment, Tag, Gap, FlushStop, Eos, is_flush_stop, is_eos, body_of}
use Rattle.flow_model.specs.Sticky.{since_flush_stop}
use Rattle.flow_model.specs.Call.{Feed, feeds, items}
use Rattle.flow_model.specs.Rule.{Fed, Fault, unfed, responded, called, all_called, owed_for}
use Rattle.flow_model.specs.SinkBytes.{Disk, empty_disk, next_disk, disk_after, sink_bytes}
use Rattle.flow_model.specs.CapsInForce.{caps_in_force}
use Rattle.flow_model.proofs.Calls.{items_push, fed_taken, feeds_push}
use Rattle.flow_model.specs.Looking.{bytes_of}
use Rattle.flow_model.proofs.Looking.{bytes_push}
use Rattle.gst_caps.specs.Same.{same_caps}
use Rattle.audio_info.specs.Templates.{wav_template}
use Rattle.el_wavenc.specs.Templates.{wav_caps}
use Rattle.el_wavenc.specs.WavFile.{Stream, stream_of, frame_width, head_length, most_data, bytes_at, head_bytes, head_items, padding}
use Rattle.el_wavenc.specs.Encodes.{Progress, progress, opening, file_end, buffer_answer, announcement, settled, caps_answer, encode_answer, encodes}
use Rattle.el_wavenc.specs.WholeFile.{wav_file, taken, data_taken}
use Rattle.el_wavenc.proofs.Steps.{opened_all, opened_more, no_fault, ok_same, opened_body}
use Rattle.flow_model.proofs.Items.{chosen}

-- ---- writing at places

head_long : (s : Stream) (size : ℕ) → length (head_bytes s size) ≡ head_length
unfolding head_bytes
head_long s size = refl

-- as many bytes as stand there, at the beginning
over_front : (front new rest : List ℕ) → length new ≡ length front → written (front ++ rest) 0 new ≡ new ++ rest
over_front front [] rest e = ap (λ l. l ++ rest) (empty front e)
  where
    empty : (xs : List ℕ) → 0 ≡ length xs → xs ≡ []
    empty [] e = refl
    empty (x ∷ xs) e = absurd (cc)
over_front front (b ∷ bs) rest e =
    let none : up_to 0 (front ++ rest) ≡ [] = up_to_short 0 (front ++ rest) (omega arith) in
    let long : 0 + length (b ∷ bs) ≡ length front = omega (arith, e) in
    ap (λ u. u ++ (b ∷ bs) ++ drop (0 + length (b ∷ bs)) (front ++ rest)) none
    ∙ ap (λ d. (b ∷ bs) ++ d) (ap (λ n. drop n (front ++ rest)) long ∙ drop_at front rest (length front) refl)

at_end : (bytes piece : List ℕ) (place : ℕ) → place ≡ length bytes → written bytes place piece ≡ bytes ++ piece
at_end bytes piece place e = ap (λ n. written bytes n piece) e ∙ written_at_end bytes piece

-- ---- what a sink has made of what was put out

-- the file as it is being written: a head, and the data so far
record IsBegun (bytes : List ℕ) (d : Disk) : Type 0 where
  head : List ℕ
  long : length head ≡ 44
  has : d.bytes ≡ head ++ bytes
  next : d.place ≡ 44 + length bytes
  going : d.ended ≡ false

-- it is so where it was begun, and nothing is there before
data IsFile (bytes : List ℕ) (d : Disk) : Bool → Type 0 where
  has_begun : IsBegun bytes d → IsFile bytes d true
  not_begun : d ≡ empty_disk → bytes ≡ [] → IsFile bytes d false

abbrev disk_from : Disk → List Item → Disk
disk_from d ys = fold (next_disk false) d ys

abbrev data_of : Fed → List ℕ
data_of fed = bytes_of (since_flush_stop (items fed.given))

abbrev Stands : Fed → Type 0
Stands fed = fed.over ≡ false → IsFile (data_of fed) (disk_after false fed.out) (progress fed).opened

-- ---- one more item

body_written : (bytes : List ℕ) (d : Disk) (place : ℕ) (body : List ℕ) → IsBegun bytes d → IsBegun (bytes ++ body) (next_disk false d (bytes_at place body))
body_written bytes d place body p = go d.ended p.going
  where
    stands : d.place ≡ length (p.head ++ bytes)
    stands = p.next ∙ ap (λ n. n + length bytes) (sym p.long) ∙ sym (length-append p.head bytes)

    go : (b : Bool) → b ≡ false → IsBegun (bytes ++ body) (if b then d else record d { bytes = written d.bytes d.place body; place = d.place + length body })
    go true e = absurd (cc)
    go false e = record {
      head = p.head;
      long = p.long;
      has = ap (λ b. written b d.place body) p.has ∙ at_end (p.head ++ bytes) body d.place stands ∙ append_assoc p.head bytes body;
      next = (let l = length-append bytes body in let n = p.next in omega (arith, l, n));
      going = p.going;
    }

opening_written : (p : Progress) (s : Stream) (bytes : List ℕ) (d : Disk) → IsFile bytes d p.opened → IsBegun bytes (disk_from d (opening p s))
opening_written p s bytes d file = go p.opened file
  where
    first : IsBegun [] (disk_from empty_disk (head_items s 0))
    first = record {
      head = head_bytes s 0;
      long = head_long s 0;
      has = at_end [] (head_bytes s 0) 0 refl ∙ sym (append-nil (head_bytes s 0));
      next = (let l = head_long s 0 in omega (arith, l));
      going = refl;
    }

    go : (o : Bool) → IsFile bytes d o → IsBegun bytes (disk_from d (if o then [] else head_items s 0))
    go true (has_begun b) = b
    go false (not_begun e none) =
        subst (λ (q : Disk). IsBegun bytes (disk_from q (head_items s 0))) (sym e) (subst (λ bs. IsBegun bs (disk_from empty_disk (head_items s 0))) (sym none) first)

still : (d : Disk) (b : Bool) → (if b then d else d) ≡ d
still d true = refl
still d false = refl

same_file : (bytes bytes' : List ℕ) (d d' : Disk) (o o' : Bool) → bytes' ≡ bytes → d' ≡ d → o' ≡ o → IsFile bytes d o → IsFile bytes' d' o'
same_file bytes bytes' d d' o o' p q r file = rw (p, q, r) file

buffer_file : (p : Progress) (d : Disk) (bytes : List ℕ) (b : Buffer) (stream : Option Stream) (ys : List Item) → IsFile bytes d p.opened → buffer_answer p b stream ≡ Ok ys
    → IsFile (bytes ++ b.body) (disk_from d ys) (opened_all p.opened ys)
buffer_file p d bytes b None ys file e = absurd (cc)
buffer_file p d bytes b (Some s) ys file e =
    let inner = chosen (length b.body % frame_width s == 0) _ _ ys e in
    let put = chosen (nat_le (p.size + length b.body) most_data) _ _ ys inner in
    let x = bytes_at (head_length + p.size) b.body in
    subst (λ zs. IsFile (bytes ++ b.body) (disk_from d zs) (opened_all p.opened zs)) (ok_same _ ys put)
    (same_file _ _ _ _ true _ refl (fold-append (next_disk false) d (opening p s) (x ∷ [])) (opened_body p s (head_length + p.size) b.body)
    (has_begun (body_written bytes (disk_from d (opening p s)) (head_length + p.size) b.body (opening_written p s bytes d file))))

-- an event that leaves the file
quiet : (p : Progress) (d : Disk) (bytes : List ℕ) (ys zs : List Item) → IsFile bytes d p.opened → no_fault zs ≡ Ok ys → disk_from d zs ≡ d → opened_all p.opened zs ≡ p.opened
    → IsFile (bytes ++ []) (disk_from d ys) (opened_all p.opened ys)
quiet p d bytes ys zs file put stays opens =
    subst (λ us. IsFile (bytes ++ []) (disk_from d us) (opened_all p.opened us)) (ok_same zs ys put)
    (same_file bytes (bytes ++ []) d _ p.opened _ (append-nil bytes) stays opens file)

caps_file : (p : Progress) (d : Disk) (bytes : List ℕ) (caps : Description One) (first : Option (Description One)) (ys : List Item) → IsFile bytes d p.opened → caps_answer p caps first ≡ Ok ys
    → IsFile (bytes ++ []) (disk_from d ys) (opened_all p.opened ys)
caps_file p d bytes caps first ys file e = quiet p d bytes ys (announcement p) file (owed first e) (go p.announced) (opens p.announced)
  where
    owed : (first : Option (Description One)) → caps_answer p caps first ≡ Ok ys → no_fault (announcement p) ≡ Ok ys
    owed None e = chosen (accepts wav_template caps) _ _ ys e
    owed (Some c) e = chosen (same_caps c caps) _ _ ys e

    go : (a : Bool) → disk_from d (if a then [] else Ev (NewCaps wav_caps) ∷ []) ≡ d
    go true = refl
    go false = still d d.ended

    opens : (a : Bool) → opened_all p.opened (if a then [] else Ev (NewCaps wav_caps) ∷ []) ≡ p.opened
    opens true = refl
    opens false = refl

took : (p : Progress) (d : Disk) (bytes : List ℕ) → IsFile bytes d p.opened → (x : Item) → is_flush_stop x ≡ false → is_eos x ≡ false → (ys : List Item) → encode_answer p x ≡ Ok ys
    → IsFile (bytes ++ body_of x) (disk_from d ys) (opened_all p.opened ys)
took p d bytes file (Buf b) plain goes ys e = buffer_file p d bytes b p.stream ys file e
took p d bytes file (Ev (NewCaps caps)) plain goes ys e = caps_file p d bytes caps (settled p) ys file e
took p d bytes file (Ev (NewSegment segment)) plain goes ys e = quiet p d bytes ys [] file e refl refl
took p d bytes file (Ev (Gap pts duration)) plain goes ys e = quiet p d bytes ys [] file e refl refl
took p d bytes file (Ev (StreamStart id)) plain goes ys e = quiet p d bytes ys (Ev (StreamStart id) ∷ []) file e (still d d.ended) refl
took p d bytes file (Ev (Tag title)) plain goes ys e = quiet p d bytes ys (Ev (Tag title) ∷ []) file e (still d d.ended) refl
took p d bytes file (Ev Eos) plain goes ys e = absurd (cc)
took p d bytes file (Ev (FlushStop number)) plain goes ys e = absurd (cc)

-- ---- all items

data_push : (fed : Fed) (x : Item) → is_flush_stop x ≡ false → bytes_of (since_flush_stop (items (fed.given ++ Feed x ∷ []))) ≡ data_of fed ++ body_of x
data_push fed x plain =
    ap (λ h. bytes_of (since_flush_stop h)) (items_push fed.given x) ∙ ap bytes_of (since_push (items fed.given) x ∙ ap (λ f. if f then [] else since_flush_stop (items fed.given) ++ x ∷ []) plain)
    ∙ bytes_push (since_flush_stop (items fed.given)) x

unflushed : (fed : Fed) (x : Item) → is_flush_stop x ≡ false → Stands fed → Stands (if fed.over then fed else responded fed x (encodes fed x))
unflushed fed x plain stands = go fed.over refl
  where
    answered : (r : Result (List Item) Fault) → encodes fed x ≡ r → fed.over ≡ false → Stands (responded fed x r)
    answered (Err fault) is begun = λ e. absurd (cc)
    answered (Ok ys) is begun = λ goes.
        same_file _ _ _ _ _ _ (data_push fed x plain) (fold-append (next_disk false) empty_disk fed.out ys) (opened_more fed.out ys)
        (took (progress fed) (disk_after false fed.out) (data_of fed) (stands begun) x plain goes ys is)

    go : (b : Bool) → fed.over ≡ b → Stands (if b then fed else responded fed x (encodes fed x))
    go true over = stands
    go false begun = answered (encodes fed x) refl begun

flushed_file : (fed : Fed) (number : ℕ) → Stands (called encodes fed (Feed (Ev (FlushStop number))))
flushed_file fed number = λ e.
    same_file [] _ empty_disk _ false _ (ap (λ h. bytes_of (since_flush_stop h)) (items_push fed.given x) ∙ ap bytes_of (since_push (items fed.given) x))
    (fold-append (next_disk false) empty_disk fed.out (x ∷ [])) (opened_more fed.out (x ∷ [])) (not_begun refl refl)
  where
    x : Item
    x = Ev (FlushStop number)

step : (fed : Fed) (x : Item) → Stands fed → Stands (called encodes fed (Feed x))
step fed (Ev (FlushStop number)) stands = flushed_file fed number
step fed (Buf b) stands = unflushed fed (Buf b) refl stands
step fed (Ev (StreamStart id)) stands = unflushed fed (Ev (StreamStart id)) refl stands
step fed (Ev (NewCaps caps)) stands = unflushed fed (Ev (NewCaps caps)) refl stands
step fed (Ev (NewSegment segment)) stands = unflushed fed (Ev (NewSegment segment)) refl stands
step fed (Ev (Tag title)) stands = unflushed fed (Ev (Tag title)) refl stands
step fed (Ev (Gap pts duration)) stands = unflushed fed (Ev (Gap pts duration)) refl stands
step fed (Ev Eos) stands = unflushed fed (Ev Eos) refl stands

all_fed : (h : List Item) (fed : Fed) → Stands fed → Stands (all_called encodes fed (feeds h))
all_fed [] fed stands = stands
all_fed (x ∷ xs) fed stands = all_fed xs (called encodes fed (Feed x)) (step fed x stands)

-- ---- the end of the file

abbrev pad_bytes : ℕ → List ℕ
pad_bytes size = if size % 2 == 0 then [] else 0 ∷ []

padded : (size : ℕ) (bytes : List ℕ) (d : Disk) → IsBegun bytes d → IsBegun (bytes ++ pad_bytes size) (disk_from d (padding size))
padded size bytes d p = go (size % 2 == 0)
  where
    go : (even : Bool) → IsBegun (bytes ++ (if even then [] else 0 ∷ [])) (disk_from d (if even then [] else bytes_at (head_length + size) (0 ∷ []) ∷ []))
    go true = subst (λ bs. IsBegun bs d) (sym (append-nil bytes)) p
    go false = body_written bytes d (head_length + size) (0 ∷ []) p

-- the head is written over the first one, and EOS leaves the bytes
headed : (s : Stream) (size : ℕ) (bytes : List ℕ) (d : Disk) → IsBegun bytes d → (disk_from d (head_items s size ++ Ev Eos ∷ [])).bytes ≡ head_bytes s size ++ bytes
headed s size bytes d p = go d.ended p.going
  where
    final : (b : Bool) (e : Disk) → (if b then e else record e { ended = true }).bytes ≡ e.bytes
    final true e = refl
    final false e = refl

    written_over : (e : Disk) → e.bytes ≡ d.bytes → e.place ≡ 0 → (b : Bool) → b ≡ false
        → (if b then e else record e { bytes = written e.bytes e.place (head_bytes s size); place = e.place + length (head_bytes s size) }).bytes ≡ head_bytes s size ++ bytes
    written_over e same at true f = absurd (cc)
    written_over e same at false f =
        ap (λ b. written b e.place (head_bytes s size)) (same ∙ p.has) ∙ ap (λ n. written (p.head ++ bytes) n (head_bytes s size)) at
        ∙ over_front p.head (head_bytes s size) bytes (head_long s size ∙ sym p.long)

    go : (b : Bool) → b ≡ false → (disk_from (if b then d else record d { place = 0 }) (bytes_at 0 (head_bytes s size) ∷ Ev Eos ∷ [])).bytes ≡ head_bytes s size ++ bytes
    go true e = absurd (cc)
    go false e = final _ (next_disk false (record d { place = 0 }) (bytes_at 0 (head_bytes s size))) ∙ written_over (record d { place = 0 }) refl refl d.ended p.going

ended_file : (p : Progress) (s : Stream) (bytes : List ℕ) (d : Disk) → IsFile bytes d p.opened → p.size ≡ length bytes
    → (disk_from d (file_end p (Some s) ++ Ev Eos ∷ [])).bytes ≡ wav_file s bytes
ended_file p s bytes d file same =
    let start = opening_written p s bytes d file in
    let more = padded p.size bytes (disk_from d (opening p s)) start in
    let parts : file_end p (Some s) ++ Ev Eos ∷ [] ≡ opening p s ++ (padding p.size ++ (head_items s p.size ++ Ev Eos ∷ [])) =
    append_assoc (opening p s) (padding p.size ++ head_items s p.size) (Ev Eos ∷ []) ∙ ap (λ ys. opening p s ++ ys) (append_assoc (padding p.size) (head_items s p.size) (Ev Eos ∷ [])) in
    ap (λ ys. (disk_from d ys).bytes) parts
    ∙ ap (λ (q : Disk). q.bytes) (fold-append (next_disk false) d (opening p s) (padding p.size ++ (head_items s p.size ++ Ev Eos ∷ [])))
    ∙ ap (λ (q : Disk). q.bytes) (fold-append (next_disk false) (disk_from d (opening p s)) (padding p.size) (head_items s p.size ++ Ev Eos ∷ []))
    ∙ headed s p.size (bytes ++ pad_bytes p.size) (disk_from (disk_from d (opening p s)) (padding p.size)) more
    ∙ ap (λ n. head_bytes s n ++ (bytes ++ pad_bytes n)) same
    ∙ sym (append_assoc (head_bytes s (length bytes)) bytes (pad_bytes (length bytes)))

pub file_made : (h : List Item) (caps : Description One) → (all_called encodes unfed (feeds h)).over ≡ false → caps_in_force (taken h) ≡ Some caps
    → sink_bytes false (owed_for encodes (feeds (h ++ Ev Eos ∷ []))) ≡ wav_file (stream_of caps) (data_taken h)
file_made h caps begun known =
    let fed = all_called encodes unfed (feeds h) in
    let p = progress fed in
    let d = disk_after false fed.out in
    let file : IsFile (data_of fed) d p.opened = all_fed h unfed (λ e. not_begun refl refl) begun in
    let answer : encodes fed (Ev Eos) ≡ Ok (file_end p (Some (stream_of caps)) ++ Ev Eos ∷ []) = ap (λ o. no_fault (file_end p o ++ Ev Eos ∷ [])) (ap (option_map stream_of) known) in
    let same = fed_taken encodes (feeds h) (Ev Eos) (file_end p (Some (stream_of caps)) ++ Ev Eos ∷ []) begun refl answer in
    ap (λ cs. sink_bytes false (owed_for encodes cs)) (feeds_push h (Ev Eos))
    ∙ ap (λ (s : Fed). sink_bytes false s.out) same
    ∙ ap (λ (q : Disk). q.bytes) (fold-append (next_disk false) empty_disk fed.out (file_end p (Some (stream_of caps)) ++ Ev Eos ∷ []))
    ∙ ended_file p (stream_of caps) (data_of fed) d file refl
