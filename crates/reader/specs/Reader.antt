-- What a reader gives: the events of the lines, one at a time.
use Rattle.std.specs.Prelude.{Option, Some, None}
use Rattle.lines.specs.Line.{line_at}
use Rattle.lines.specs.declared.Event.{Event}
use Rattle.reader.specs.declared.Reader.{Reader}

-- the event of the line at a reader's place, and the reader behind that line; none of a bad line, where the reader stays
abbrev pub next_of : Reader → Option Event × Reader
next_of reader = elim (line_at reader.input.now reader.at) [ Some (event, next) ↦ (Some event, record reader { at = next }) | None ↦ (None, reader) ]
