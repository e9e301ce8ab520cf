use Rattle.std.proofs.Common.{option_map, ◌≡◌, ◌∙◌, ap, sym, refl, rules, inl, inr, true, map, Some, ◌∷◌, ◌++◌, []}
use Rattle.std.specs.Result.{is_ok}
use Rattle.std.proofs.lemmas.List.{map-append}
use Rattle.csv.specs.Reading.{builder_config, builder_names_headers, builder_trim, Reached, strip_bom}
use Rattle.csv.specs.declared.parser.Config.{Config}
use Rattle.csv.specs.declared.reader.ReaderBuilder.{ReaderBuilder}
use Rattle.csv.specs.Records.{fields_of}
use Rattle.csv.specs.declared.parser.State.TheVariants as st
use Rattle.csv.proofs.ReadFacts.{rows-end, rows-more}
use Rattle.grove_table.specs.Confirming.{known, table_config}
use Rattle.grove_table.proofs.rows.records_in.Goals as goal
use Rattle.std.proofs.Common.{arith}

-- how a builder reads once it takes comments
abbrev with_comments : Config → Config
with_comments config = record config { comment = Some 35 }

abbrev commenting : ReaderBuilder → Config
commenting builder = with_comments (builder_config builder)

pub loop-row-init : goal.loop-row-init
unfolding Reached
loop-row-init c =
    let fr = c.from_reader-rdr.ensures in
    let bare = c.has_headers.ensures in
    let flexible = c.flexible.ensures in
    let commented = c.comment.ensures in
    let start = c.into_iter-row-iterator.ensures.into_iter_gives ∙ refl in
    let rdr = c.into_byte_records-row-items.ensures.rdr in
    let left = c.into_byte_records-row-items.ensures.left in
    rw (start, rdr, c.new-rows.ensures.items) (
      fr.trim ∙ ap builder_trim commented ∙ ap builder_trim flexible ∙ ap builder_trim bare ∙ c.new.ensures.trim,
      inr (inr (
        fr.has_headers ∙ ap builder_names_headers commented ∙ ap builder_names_headers flexible
            ∙ ap builder_names_headers bare,
        fr.headers,
      )),
      left,
      fr.config ∙ ap builder_config commented ∙ ap commenting flexible ∙ ap commenting bare
          ∙ ap with_comments c.new.ensures.config,
      strip_bom (c.args.text.now ++ 10 ∷ []),
      fr.source ∙ ap (option_map strip_bom) c.chain.ensures.bytes,
      (sym fr.state, refl),
    )

pub loop-row-preserved : goal.loop-row-preserved
loop-row-preserved c =
    let inv = c.loop-row.invariant in
    let s = rw (c.in-Some.is, c.in_ok-row.was) at ((c.next.ensures.steps inv.2 inv.0).0 inv.1) in
    let good : is_ok c.push.result ≡ true = search rules in
    let items = rw good at c.push.ensures.items in
    let m = rows-more known c.loop-row.row-iterator.rdr c.next.new.self.rdr
    (fields_of c.in_ok-row.field-0) table_config st.StartRecord (strip_bom (c.args.text.now ++ 10 ∷ [])) inv.4
    (map fields_of c.loop-row.rows.items) inv.3 inv.5 inv.6 s.0 in (
      s.0.3 ∙ inv.0,
      inl s.1,
      s.2,
      s.0.2 ∙ inv.3,
      m.0,
      m.1,
      rw (items, map-append fields_of c.loop-row.rows.items (c.in_ok-row.field-0 ∷ [])) m.2,
    )

pub returns : goal.returns
returns c = grind (arith, rows-end)
